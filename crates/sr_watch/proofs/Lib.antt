pub mod LateLemmas
pub mod ToldLemmas
pub mod TableLemmas
pub mod FollowLemmas
pub mod LawLemmas
pub mod AlarmLemmas
pub mod WorkedLemmas
pub mod ForgetLemmas
