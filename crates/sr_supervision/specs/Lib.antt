pub mod Tlvs
pub mod Supervised
pub mod Refused
pub mod Written
pub mod FaultCodes
