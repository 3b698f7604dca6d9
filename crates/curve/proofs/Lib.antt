pub mod Seam
pub mod Within
pub mod Sizes
pub mod Order
pub mod Accepted
pub mod Bench
pub mod Tenth
