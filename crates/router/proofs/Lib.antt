pub mod HalvedSpan
pub mod AskedSpan
pub mod Determined
pub mod Outcomes
pub mod Exact
pub mod Statements
