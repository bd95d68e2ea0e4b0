pub mod Headed
pub mod Bodies
pub mod Unique
