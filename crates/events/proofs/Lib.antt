pub mod Stored
pub mod Inversion
