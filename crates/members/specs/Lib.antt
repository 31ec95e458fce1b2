-- What the contracts of `members` cite.
pub mod Members
pub mod Inner
