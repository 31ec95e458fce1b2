-- The lines, their lengths, and the lines of the states one after the other.
pub mod LineLaws
