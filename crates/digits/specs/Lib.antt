pub mod Digits
pub mod Statements
