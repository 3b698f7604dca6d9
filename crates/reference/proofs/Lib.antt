pub mod Least
pub mod Serving
pub mod Bracket
pub mod Against
pub mod Order
pub mod Bench
