pub mod Entries
pub mod Grammar
pub mod Loading
pub mod Queries
pub mod Flaws
pub mod Told
pub mod Statements
