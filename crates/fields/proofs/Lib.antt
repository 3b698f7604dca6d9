pub mod Numbers
pub mod TwosComplement
pub mod Splices
pub mod Words
