pub mod Ages
pub mod AgeLemmas
pub mod FullLemmas
pub mod GatherLemmas
