pub mod Step
pub mod Bench
pub mod Transcript
pub mod Laws
pub mod Charts
