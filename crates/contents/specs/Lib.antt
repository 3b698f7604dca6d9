pub mod Plan
pub mod Contents
pub mod Packed
pub mod Repacked
