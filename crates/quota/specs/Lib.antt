pub mod Asks
pub mod Quota
