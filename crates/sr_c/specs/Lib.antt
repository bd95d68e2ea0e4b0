pub mod Calls
pub mod Codes
pub mod Entries
pub mod Follows
pub mod Handles
pub mod Lists
pub mod Setups
