pub mod WordLemmas
pub mod RowLemmas
pub mod BinLemmas
pub mod PlaceLemmas
pub mod ShowLemmas
pub mod CallLemmas
pub mod SameLemmas
pub mod LawLemmas
