pub mod Counted
pub mod Settled
pub mod Items
pub mod Merged
pub mod Reread
