-- A chain without its entries of rate 0, and apart from it (Inner) what the functions ask and leave.
pub mod Cleaned
pub mod Inner
