pub mod Determined
pub mod Statements
