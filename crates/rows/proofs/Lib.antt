mod Bit
mod Words
mod Calls
mod Rows
pub mod Listed
