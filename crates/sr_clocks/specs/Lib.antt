pub mod Limits
pub mod Windows
pub mod Lines
pub mod Seen
pub mod Telling
pub mod Rests
