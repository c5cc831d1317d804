pub mod ListPutting
pub mod WhyPutting
pub mod Statements
pub mod WhyStatements
pub mod RouteStatements
pub mod Determined
