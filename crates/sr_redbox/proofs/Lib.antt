pub mod SanLemmas
pub mod NetLemmas
