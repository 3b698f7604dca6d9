pub mod Grounds
pub mod Promises
pub mod Examples
