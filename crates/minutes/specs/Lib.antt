pub mod Minutes
pub mod Statements
