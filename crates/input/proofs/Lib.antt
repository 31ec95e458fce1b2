-- Laws of answers at the front of a buffer.
pub mod FrontLaws
