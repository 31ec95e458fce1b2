-- What the contract cites: the text for any bytes.
pub mod Report
