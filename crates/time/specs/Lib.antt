pub mod Bounds
pub mod BoundsLaws
pub mod Frames
pub mod Ticks
pub mod Seconds
pub mod SecondsLaws
pub mod Statements
