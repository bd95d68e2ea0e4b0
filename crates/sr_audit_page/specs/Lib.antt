pub mod Grounds
pub mod Networks
pub mod Rows
pub mod Sums
