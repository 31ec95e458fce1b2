-- The answer of solving with a table and what it says, the bound on the groups' shares, and the contract at its ways out.
pub mod Bound
pub mod Acceptance
pub mod Admission
pub mod Outcomes
pub mod Determined
