-- The chain in rows of a rate function.
pub mod FromRates
