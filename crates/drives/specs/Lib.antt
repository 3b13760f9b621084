pub mod Drives
pub mod House
