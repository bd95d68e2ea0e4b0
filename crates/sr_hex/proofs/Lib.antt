pub mod LaneLemmas
pub mod Blocks
pub mod Short
pub mod Digits
pub mod Digested
