-- Laws that the proofs of the functions share.
pub mod BackSubstitution
pub mod Shares
