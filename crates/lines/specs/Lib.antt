-- The lines of an answer, and apart from them (Inner) what the contracts of private functions cite.
pub mod Lines
pub mod Inner
