pub mod Demand1
pub mod History
pub mod Listings
pub mod Turns
pub mod Versions
pub mod Words
