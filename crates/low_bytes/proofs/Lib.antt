pub mod Worth
pub mod Summing
pub mod Laying
pub mod Statements
pub mod Determined
pub mod Machine
