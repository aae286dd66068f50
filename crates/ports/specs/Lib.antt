pub mod Keys
pub mod Ports
pub mod Ordered
pub mod Owned
