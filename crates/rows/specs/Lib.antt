pub mod Bits
pub mod Shown
pub mod Tables
pub mod Shows
