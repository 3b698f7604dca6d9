pub mod Recorder
pub mod Promises
pub mod Examples
