pub mod Searching
pub mod Claim
