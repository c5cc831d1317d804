pub mod Fraction
pub mod RuntimeText
pub mod Statements
