-- A program that reads one file and writes an answer to it.
pub mod Answer
