pub mod Named
pub mod Outcomes
pub mod Topologies
pub mod Units
