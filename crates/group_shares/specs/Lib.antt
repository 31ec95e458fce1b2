-- What the contract of `solve_groups` cites, and apart from it (Inner) what its parts cite.
pub mod GroupShares
pub mod Inner
