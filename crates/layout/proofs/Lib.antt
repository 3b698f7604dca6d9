pub mod Lent
pub mod AsCoded
pub mod RoundTrips
pub mod Examples
