pub mod Transcript
pub mod Turn
