pub mod Drawings
pub mod Layouts
pub mod Sums
pub mod Checks
pub mod Stages
pub mod Values
pub mod Answers
