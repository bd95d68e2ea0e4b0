pub mod Formats
pub mod Fronts
pub mod TakenLemmas
