pub mod Opposes
pub mod Shares
