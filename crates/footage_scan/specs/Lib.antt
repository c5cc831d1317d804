pub mod Shape
pub mod Footage
pub mod Statements
