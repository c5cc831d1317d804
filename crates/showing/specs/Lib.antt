pub mod Each
pub mod Shown
pub mod Lists
pub mod Why
pub mod Routes
pub mod Statements
