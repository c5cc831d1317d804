pub mod FootageText
pub mod Statements
