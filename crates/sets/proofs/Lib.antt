pub mod Bits
pub mod Quorum
pub mod Cases
pub mod Size
