pub mod TlvLemmas
pub mod Meaning
pub mod WrittenLemmas
