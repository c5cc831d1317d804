pub mod Statements
pub mod Room
pub mod Determined
