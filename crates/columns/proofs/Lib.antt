pub mod Accepted
pub mod Pigeons
pub mod Some
pub mod Tables
mod Turned
mod Worked
