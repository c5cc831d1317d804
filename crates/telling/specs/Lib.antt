pub mod Shown
pub mod Facts
pub mod Told
pub mod Question
pub mod Answered
pub mod Joined
pub mod Grammar
pub mod Statements
