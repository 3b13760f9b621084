pub mod Eight
pub mod Meaning
pub mod Ranges
