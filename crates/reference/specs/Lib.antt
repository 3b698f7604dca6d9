pub mod Signal
pub mod Search
pub mod Order
pub mod Sought
pub mod Bench
