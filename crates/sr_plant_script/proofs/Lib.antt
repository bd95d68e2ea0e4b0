pub mod Words
pub mod NewPlants
pub mod UpLines
pub mod FlowLemmas
mod ServeLemmas
