pub mod Left
pub mod Parts
pub mod Pending
pub mod Unique
pub mod Writing
