pub mod Lent
pub mod Listing
