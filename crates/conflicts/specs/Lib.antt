pub mod Conflicts
pub mod Meaning
pub mod Tapes
