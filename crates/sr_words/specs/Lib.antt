pub mod Words
pub mod WordLemmas
