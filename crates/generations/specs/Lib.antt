pub mod Generations
pub mod Meaning
pub mod Memo
