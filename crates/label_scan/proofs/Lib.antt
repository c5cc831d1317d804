pub mod Statements
pub mod Apart
pub mod Determined
