pub mod Entries
pub mod Labels
pub mod Meaning
