-- What a joining leaves, and apart from it (Inner) what its parts ask and leave.
pub mod Joining
pub mod Inner
