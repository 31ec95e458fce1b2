-- Laws of the table, and what an accepted verdict says.
pub mod TableLaws
pub mod VerdictLaws
