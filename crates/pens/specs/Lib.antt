pub mod Pens
