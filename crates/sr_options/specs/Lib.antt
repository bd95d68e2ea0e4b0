pub mod Limits
pub mod Refusals
pub mod Shifts
pub mod Tasks
