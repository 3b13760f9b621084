pub mod Lists
pub mod Members
pub mod Ranges
pub mod Reflect
pub mod Search
pub mod Tests
