pub mod Lines
pub mod Count
pub mod Every
pub mod Outcome
