-- Laws of group tables.
pub mod Counting
pub mod RowLaws
pub mod StateLaws
pub mod Reading
pub mod Cases
