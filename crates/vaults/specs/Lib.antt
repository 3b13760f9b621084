pub mod Vaults
pub mod Votes
