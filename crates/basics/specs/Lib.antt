-- What every crate above may cite: finite sums and products, "within c factors", tests of all numbers below n, the first number at which a
-- test holds, and the list of a function's first values.
pub mod Sum
pub mod Near
pub mod Below
pub mod First
pub mod Lists
