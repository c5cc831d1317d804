pub mod Days
pub mod Sound
pub mod Statements
pub mod Determined
