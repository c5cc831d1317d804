pub mod Fraction
pub mod Powers
pub mod Laws
pub mod Short
pub mod Statements
pub mod Determined
