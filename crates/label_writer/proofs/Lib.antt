pub mod Answers
pub mod Statements
pub mod Determined
