-- The sizes that the bound count meets on the way.
pub mod Sizes
