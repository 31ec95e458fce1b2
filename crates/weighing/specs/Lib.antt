-- What the contracts of `weighing` cite.
pub mod Weighing
pub mod Inner
