pub mod Rates
pub mod Rule
pub mod Laws
pub mod Day
pub mod Statements
