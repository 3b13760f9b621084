pub mod Contest
pub mod Game
pub mod Meaning
pub mod Plans
