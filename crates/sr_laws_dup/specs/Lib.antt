pub mod TableRuns
pub mod Starts
pub mod EpochLemmas
pub mod RunLemmas
pub mod SteadyLemmas
