-- What the contract of `solve` cites, and apart from it (Inner) what its parts cite.
pub mod Lent
pub mod Solve
pub mod Inner
