pub mod HeardLemmas
pub mod NodeLemmas
