pub mod Members
pub mod Crossings
