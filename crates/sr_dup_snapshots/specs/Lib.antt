pub mod Snapshots
pub mod Reading
pub mod Ordered
pub mod Laws
