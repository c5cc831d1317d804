pub mod ListText
pub mod Statements
