pub mod Within
pub mod Sizes
pub mod Inversion
pub mod Span
