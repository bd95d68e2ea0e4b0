pub mod OrderLemmas
pub mod MarkLemmas
pub mod SpellLemmas
pub mod ReadLemmas
pub mod TextLemmas
pub mod RecutLemmas
