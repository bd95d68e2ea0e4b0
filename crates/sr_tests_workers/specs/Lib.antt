pub mod Carriages
