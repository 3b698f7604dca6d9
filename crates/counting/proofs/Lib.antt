pub mod Within
pub mod Sizes
pub mod Charts
