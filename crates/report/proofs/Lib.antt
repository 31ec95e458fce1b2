-- The text of a chain from the result slices, the length of a text, each way out of the calls, and the cases of document 01.
pub mod Texts
pub mod Lengths
pub mod Input
pub mod EndToEnd
pub mod Outcomes
pub mod Determined
pub mod Cases
