pub mod Zero
pub mod Inverse
pub mod KindByte
