pub mod Judged
pub mod Lossless
pub mod Counted
pub mod Exact
pub mod Seeing
pub mod Ending
pub mod Limited
pub mod LimitCases
