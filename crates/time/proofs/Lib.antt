pub mod Back
pub mod Steps
pub mod Statements
pub mod Determined
