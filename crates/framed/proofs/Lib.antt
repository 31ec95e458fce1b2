-- Laws of files handed on, and evaluated cases.
pub mod HandedLaws
pub mod Cases
