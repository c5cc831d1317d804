pub mod Beginning
pub mod Statements
