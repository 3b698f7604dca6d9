pub mod Limits
pub mod Curve
pub mod Reading
pub mod Absolute
pub mod Order
pub mod Bench
