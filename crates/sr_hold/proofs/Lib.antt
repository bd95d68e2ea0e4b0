pub mod MarkLemmas
pub mod ChainLemmas
pub mod MergeLemmas
pub mod HoldLemmas
pub mod CleanLemmas
pub mod OrderLemmas
pub mod CaseLemmas
