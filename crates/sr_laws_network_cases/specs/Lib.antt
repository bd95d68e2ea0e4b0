pub mod CutRing
pub mod CutNetworks
