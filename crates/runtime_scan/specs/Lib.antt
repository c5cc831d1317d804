pub mod Shape
pub mod Runtime
pub mod Statements
