pub mod Beginnings
pub mod PrintedLines
pub mod Arrivals
pub mod StatusLines
pub mod HostLines
