pub mod Long
pub mod Justified
pub mod Scan
pub mod Then
pub mod Fields
pub mod Text
pub mod Shapes
pub mod Statements
