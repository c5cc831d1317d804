pub mod Digits
pub mod Pairs
pub mod Taking
pub mod Filling
pub mod Grammar
pub mod Statements
pub mod Determined
pub mod AllDigits
