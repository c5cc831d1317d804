pub mod ByMinutes
pub mod Fields
pub mod Earlier
pub mod Found
pub mod RateAsks
pub mod Statements
pub mod Determined
