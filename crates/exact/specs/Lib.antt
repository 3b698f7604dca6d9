pub mod Fraction
pub mod Equation
pub mod Signal
pub mod Bounds
pub mod Area
