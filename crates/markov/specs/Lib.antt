-- The definitions of the exact theory, of the elimination, of closed sets, of the bound counts and of two chains side by side.
pub mod Chain
pub mod Weight
pub mod Elimination
pub mod Count
pub mod Promises
pub mod Closed
pub mod Product
