pub mod Sample
pub mod Events
