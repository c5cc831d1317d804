pub mod Lengths
pub mod Measuring
pub mod Putting
pub mod OnDisk
pub mod Statements
pub mod Determined
