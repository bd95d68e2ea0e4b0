pub mod Faults
pub mod Lacks
pub mod Objects
pub mod StatusObjects
