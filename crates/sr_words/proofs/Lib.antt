pub mod Ascii
pub mod Digits
pub mod FrontNumbers
pub mod Numerals
