pub mod Doubles
pub mod Kept
