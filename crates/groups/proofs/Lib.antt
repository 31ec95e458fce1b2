-- Laws of the counts, of the look-up and of the sums, one row or one share at a time.
pub mod Filling
pub mod Summing
