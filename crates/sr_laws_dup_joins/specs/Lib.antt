pub mod Growths
pub mod GrowthLaws
pub mod Examples
