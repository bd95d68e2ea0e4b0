pub mod PieceLemmas
pub mod SoundLemmas
