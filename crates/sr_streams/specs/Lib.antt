pub mod Limits
pub mod Elements
pub mod Messages
pub mod Views
pub mod Spots
pub mod Courses
pub mod Sums
pub mod Tables
