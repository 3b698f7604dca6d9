pub mod Difference
pub mod Integers
pub mod Tests
pub mod Machine
pub mod Nearest
pub mod Approximation
