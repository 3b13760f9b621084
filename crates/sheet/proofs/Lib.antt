pub mod Parts
pub mod Unsigned
