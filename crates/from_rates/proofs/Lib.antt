-- Laws of the chain in rows of a rate function.
pub mod TogetherLaws
pub mod FromLaws
pub mod SameChain
pub mod Cases
