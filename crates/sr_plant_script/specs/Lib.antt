pub mod Members
pub mod Setups
pub mod Commands
pub mod Sendings
pub mod Texts
pub mod Happenings
pub mod Replies
