pub mod FaultLaws
pub mod Next
pub mod OnFilm
pub mod Statements
pub mod Determined
