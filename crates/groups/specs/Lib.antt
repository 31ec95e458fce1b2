-- What the parts of the check and of the sums promise each other.
pub mod Inner
