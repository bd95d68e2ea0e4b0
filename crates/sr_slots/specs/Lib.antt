pub mod Places
pub mod Calls
pub mod Effects
pub mod EntryLemmas
pub mod Keyed
