pub mod ByRow
pub mod Choices
pub mod Headers
pub mod Scans
