pub mod Written
pub mod Parts
pub mod Clock
pub mod Statements
