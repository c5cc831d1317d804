pub mod Faults
pub mod FaultLaws
pub mod OneLaws
