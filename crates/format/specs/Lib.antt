pub mod Header
pub mod File
