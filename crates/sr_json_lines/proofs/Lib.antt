pub mod Joins
pub mod Labels
