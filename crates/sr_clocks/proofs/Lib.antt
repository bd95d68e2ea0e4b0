pub mod PairLemmas
pub mod Ordered
