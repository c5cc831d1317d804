pub mod Phrases
pub mod Statements
