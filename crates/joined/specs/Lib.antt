-- The joint chain of two chains, what is proved of it, and the verdict of a joining.
pub mod Joined
pub mod Verdict
