pub mod Limits
pub mod Numbers
pub mod Taking
pub mod TakingLemmas
pub mod Headers
pub mod Records
pub mod Laws
