pub mod Joined
pub mod Judged
pub mod Losses
pub mod Ran
pub mod Sources
pub mod FaultNumbers
