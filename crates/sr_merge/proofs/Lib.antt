pub mod PlaceLemmas
pub mod RunLemmas
pub mod KeptLemmas
pub mod CopyLemmas
pub mod DueLemmas
