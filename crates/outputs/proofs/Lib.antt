pub mod Columned
pub mod Putting
