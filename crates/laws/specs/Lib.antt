pub mod Every
pub mod Spelt
