pub mod Determined
pub mod Dividing
pub mod Orders
pub mod Joining
pub mod Admitting
pub mod Statements
pub mod Positions
