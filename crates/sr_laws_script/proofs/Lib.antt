pub mod NodeLemmas
pub mod StatusLemmas
pub mod ScriptLemmas
