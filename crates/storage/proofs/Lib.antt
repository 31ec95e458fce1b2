-- Laws of stored chains, and the theorems of reading and writing.
pub mod Holding
pub mod MapBits
pub mod Marks
pub mod ReadWrite
pub mod WriteRead
pub mod Passes
pub mod Meaning
pub mod ZeroRates
pub mod Calls
pub mod RoundTrips
pub mod Determined
pub mod Cases
pub mod Prefix
pub mod SaysLaws
