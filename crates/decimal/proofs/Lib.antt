-- Laws of the decimal text, and the steps of putting it.
pub mod DecimalLaws
pub mod Writing
pub mod Cases
