pub mod StepLemmas
pub mod TurnLemmas
pub mod Logged
