pub mod Integration
pub mod Limits
pub mod Charts
