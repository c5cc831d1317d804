pub mod Digits
pub mod Hex
pub mod Grammar
pub mod Statements
