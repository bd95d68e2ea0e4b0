pub mod JournalLaws
pub mod Turns
pub mod LogLaws
