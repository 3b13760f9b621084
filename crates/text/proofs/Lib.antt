pub mod Members
pub mod Writing
