-- What the calls for C return, and what they put into the answer slice.
pub mod Answer
