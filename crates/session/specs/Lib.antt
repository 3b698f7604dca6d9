pub mod Transcript
pub mod Over
