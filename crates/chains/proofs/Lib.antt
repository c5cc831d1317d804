pub mod Walk
pub mod Steps
pub mod Multiples
pub mod Demand3
pub mod Determined
