pub mod Lanes
pub mod Values
