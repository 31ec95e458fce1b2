-- What the contracts of every call cite: document 01's number and two places for each refusal.
pub mod Table
pub mod Printed
