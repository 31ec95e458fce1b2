-- The line of a refusal.
pub mod Refused
