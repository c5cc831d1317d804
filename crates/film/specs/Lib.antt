pub mod Film
pub mod Footage
pub mod OnFilm
pub mod Faults
pub mod FormatLaws
pub mod FootageLaws
pub mod Statements
