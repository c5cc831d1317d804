pub mod Gives
pub mod Told
pub mod Statements
pub mod Determined
