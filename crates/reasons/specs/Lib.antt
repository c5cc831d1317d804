pub mod Facts
pub mod Why
pub mod Holds
pub mod Statements
