pub mod Times
pub mod Clock
pub mod Needs
