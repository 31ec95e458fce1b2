-- Laws that the proofs of the functions, and of the crates above, share.
pub mod Sizes
pub mod Listing
pub mod Spreading
