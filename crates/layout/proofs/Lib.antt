-- Bytes that tell their places, by evaluation; laws of the columns and of the rates of a stored chain, and of its two forms.
pub mod Cases
pub mod Columns
pub mod Rates
pub mod Fit
pub mod FirstByte
pub mod FormOne
pub mod FormTwo
