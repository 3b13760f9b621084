pub mod Meaning
pub mod Tapes
