pub mod Cases
pub mod Stored
pub mod Laws
pub mod Charts
pub mod Bench
pub mod Transcript
