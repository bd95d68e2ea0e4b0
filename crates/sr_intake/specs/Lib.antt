pub mod Counting
pub mod Intakes
pub mod Kinds
