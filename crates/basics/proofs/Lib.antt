-- Laws of finite sums and products, of "within c factors", of tests, of searches and of lists.
pub mod SumLaws
pub mod TermLaws
pub mod NearLaws
pub mod MildLaws
pub mod BoolLaws
pub mod FirstLaws
pub mod FoundLaws
pub mod SetsLaws
pub mod FillLaws
