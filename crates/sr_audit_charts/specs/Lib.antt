pub mod Columns
pub mod Histograms
