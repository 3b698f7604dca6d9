pub mod Sample
pub mod Span
