-- What the proofs share.
pub mod AsBox
pub mod Told
