pub mod Addresses
pub mod Frame
pub mod View
pub mod AddressLemmas
pub mod OctetLemmas
pub mod FrameLemmas
pub mod LengthLemmas
pub mod FaultCodes
