pub mod Faults
pub mod Tagged
pub mod TagLemmas
pub mod FaultCodes
