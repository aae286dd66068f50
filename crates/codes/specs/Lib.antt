pub mod Codes
pub mod Spreads
pub mod Coding
