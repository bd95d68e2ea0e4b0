pub mod Remarks
pub mod Counting
pub mod Counted
pub mod Entries
pub mod Settling
pub mod Reading
pub mod Files
pub mod Merged
