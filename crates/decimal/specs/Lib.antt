-- What the contracts cite: the decimal text of a number, and what putting a text leaves.
pub mod Decimal
pub mod Put
