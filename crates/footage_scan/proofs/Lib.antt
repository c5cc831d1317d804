pub mod Statements
pub mod Determined
