pub mod Shape
pub mod File
pub mod Putting
