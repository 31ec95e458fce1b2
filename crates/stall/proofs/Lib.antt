-- The exported calls from the calls within, and what their contracts say in cases.
pub mod Calls
pub mod Cases
