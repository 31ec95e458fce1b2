-- Document 02, R-1: group tables, refusals 13, 12 and 11, and the shares of groups.
pub mod Rules
pub mod Sound
pub mod Sums
