pub mod Ledger
pub mod Wets
pub mod Small
pub mod Claim
pub mod Example
