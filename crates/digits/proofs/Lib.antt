pub mod Values
pub mod Width
pub mod Leading
pub mod Runs
pub mod Taking
pub mod Spelling
pub mod Statements
pub mod Determined
