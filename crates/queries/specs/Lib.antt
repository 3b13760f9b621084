pub mod Admission
pub mod Checks
