pub mod PlaceLemmas
pub mod CloneLemmas
pub mod IndexLemmas
pub mod SiftLemmas
pub mod FromLemmas
pub mod SettleLemmas
