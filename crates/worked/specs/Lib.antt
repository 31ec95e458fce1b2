-- The table of the worked cases, two cases with groups, and joint chains solved.
pub mod Table
pub mod Groups
pub mod SideBySide
