-- Laws that the proofs of the functions share, and the theorems about `solve`.
pub mod Operations
pub mod SetSums
pub mod Ranges
pub mod Demands
pub mod Acceptance
pub mod Admission
pub mod Tables
pub mod Room
pub mod Outcomes
pub mod Determined
pub mod AsBefore
