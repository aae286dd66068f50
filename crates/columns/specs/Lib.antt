pub mod Edits
pub mod Sides
pub mod Somewhere
pub mod Examples
