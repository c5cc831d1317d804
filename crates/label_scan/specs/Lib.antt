pub mod Shape
pub mod Label
pub mod Statements
