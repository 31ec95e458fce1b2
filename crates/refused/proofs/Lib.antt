-- The line of a refusal: a case of it, and its length.
pub mod Cases
pub mod RefusedLaws
