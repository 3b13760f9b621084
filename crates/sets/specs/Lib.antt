pub mod Bits
pub mod Quorum
