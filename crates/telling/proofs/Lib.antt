-- The answer slice, and what it holds in cases.
pub mod Answers
pub mod Cases
