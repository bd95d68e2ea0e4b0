pub mod ListLemmas
pub mod BuildingLemmas
pub mod FlightLemmas
mod LinkLemmas
pub mod HopLemmas
mod PutLemmas
pub mod GivenLemmas
pub mod ActLemmas
pub mod OrderLemmas
pub mod LandLemmas
pub mod CarryLemmas
pub mod CoupledLemmas
