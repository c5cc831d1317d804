pub mod Laws
pub mod Parts
pub mod Statements
pub mod Determined
