pub mod SanBoxes
pub mod Interlinks
pub mod RingBoxes
pub mod Nets
