pub mod ListLemmas
pub mod StartLemmas
pub mod GrowthLemmas
pub mod AgreeLemmas
pub mod ExampleLemmas
