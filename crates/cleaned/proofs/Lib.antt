-- Laws of a chain without its entries of rate 0.
pub mod KeptLaws
pub mod CleanedLaws
pub mod Loops
pub mod Slices
pub mod Cases
