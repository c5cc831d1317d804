pub mod Millionths
pub mod Statements
pub mod Determined
