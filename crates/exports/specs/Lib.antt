pub mod Handed
pub mod HandedLists
pub mod HandedWhy
pub mod HandedRoute
