pub mod Steady
pub mod Outcomes
pub mod Lists
pub mod ListCases
pub mod Records
pub mod Sources
pub mod Exactly
pub mod Cases
