pub mod Collecting
pub mod Replanned
