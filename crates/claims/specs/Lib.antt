pub mod Claim
pub mod Example
pub mod Every
pub mod Drawn
pub mod Grounds
