pub mod Planned
pub mod Lookups
pub mod RoundTrip
pub mod Packed
pub mod Repacked
