pub mod WatchLemmas
pub mod LawLemmas
pub mod SameLemmas
