-- The parts of the argument, and the theorem (AnyOrder; with document 01's numbers, Range).
pub mod Walks
pub mod Entries
pub mod Rooms
pub mod Sizes
pub mod Steps
pub mod Back
pub mod ExactWeights
pub mod Groups
pub mod AnyOrder
pub mod Range
