pub mod LowBytes
pub mod Laws
pub mod Statements
