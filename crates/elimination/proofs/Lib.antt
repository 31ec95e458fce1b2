-- Laws that the proofs of the functions share.
pub mod Cleared
pub mod Cut
pub mod Loading
pub mod Weighing
pub mod Running
