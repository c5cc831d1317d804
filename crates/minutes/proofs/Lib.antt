pub mod MinutesLaws
pub mod Entries
pub mod Statements
pub mod Determined
