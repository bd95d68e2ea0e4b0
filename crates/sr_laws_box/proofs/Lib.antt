pub mod MemberLemmas
pub mod CrossingLemmas
