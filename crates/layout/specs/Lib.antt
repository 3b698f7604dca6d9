pub mod Records
pub mod Lent
pub mod Ended
