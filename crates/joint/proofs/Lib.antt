-- The lent slices by evaluation (its name puts it first, so that a wrong contract is refused there), and what the functions leave.
pub mod Cases
pub mod Determined
pub mod RowLaws
pub mod WaysOut
pub mod Mapped
