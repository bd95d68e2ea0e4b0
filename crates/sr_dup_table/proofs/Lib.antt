pub mod SourceLemmas
pub mod ArriveLemmas
pub mod RunLemmas
pub mod EntryLemmas
pub mod SameLemmas
pub mod JoinLemmas
pub mod JoinLawLemmas
