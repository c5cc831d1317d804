pub mod Begun
pub mod Held
pub mod Texts
pub mod Statements
pub mod Determined
