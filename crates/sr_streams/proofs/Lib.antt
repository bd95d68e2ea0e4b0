pub mod Entering
pub mod Missing
pub mod Lengths
pub mod Keys
pub mod Tabled
