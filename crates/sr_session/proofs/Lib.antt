pub mod Places
pub mod Pieces
pub mod Going
pub mod WaitingTexts
pub mod LeftLines
