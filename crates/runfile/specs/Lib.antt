pub mod Demand1
pub mod History
pub mod Listings
pub mod Run
pub mod Steps
