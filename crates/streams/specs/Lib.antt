pub mod Lines
pub mod Parting
pub mod Gathering
pub mod Turns
pub mod Sheet
pub mod Pieces
pub mod Statements
