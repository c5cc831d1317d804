pub mod Defaults
pub mod Determined
