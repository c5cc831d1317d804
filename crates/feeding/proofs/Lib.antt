pub mod Following
pub mod Standing
pub mod Statements
pub mod Whole
pub mod Determined
