-- What the contracts of `updating` cite.
pub mod Inner
