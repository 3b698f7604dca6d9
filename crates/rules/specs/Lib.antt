pub mod Answer
pub mod Rules
pub mod Limits
