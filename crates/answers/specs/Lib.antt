pub mod Causes
pub mod Order
pub mod OrderLaws
pub mod Refusals
pub mod Laws
