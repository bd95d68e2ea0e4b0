pub mod Limits
pub mod Rates
pub mod Senders
pub mod Lanes
pub mod Sources
pub mod Kinds
