pub mod Ages
pub mod Creators
pub mod Meaning
pub mod Memos
pub mod Positions
