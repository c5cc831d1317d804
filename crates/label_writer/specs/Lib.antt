pub mod Sections
pub mod LabelText
pub mod Statements
