pub mod Signals
pub mod Samples
pub mod Others
pub mod Promises
pub mod Examples
