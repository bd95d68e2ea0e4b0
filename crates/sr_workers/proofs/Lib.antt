pub mod Bringing
pub mod Calling
pub mod Carrying
pub mod Lists
pub mod Rows
pub mod Steps
pub mod Telling
