pub mod Machine
pub mod Tests
pub mod Closest
pub mod Statements
pub mod Determined
