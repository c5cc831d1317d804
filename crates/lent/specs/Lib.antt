pub mod Line
pub mod Statements
