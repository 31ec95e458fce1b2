-- Document 01, "Stored chains", and document 02, R-8: the two forms, what bytes mean, the file of a chain, and the lent slices of a chain.
pub mod Forms
pub mod Bytes
pub mod File
pub mod Buffers
