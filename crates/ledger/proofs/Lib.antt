pub mod Tallies
pub mod Samples
pub mod Lines
pub mod Fits
pub mod Demand3
pub mod Example
