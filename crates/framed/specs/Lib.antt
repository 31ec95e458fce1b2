-- Files one after the other in one input.
pub mod Framed
