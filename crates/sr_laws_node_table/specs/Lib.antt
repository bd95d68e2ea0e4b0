pub mod Kept
pub mod Entered
pub mod Lateness
pub mod Raised
pub mod TableLaws
pub mod Examples
pub mod FullExample
