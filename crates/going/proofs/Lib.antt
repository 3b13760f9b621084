pub mod Commands
pub mod Keeps
pub mod Naming
pub mod Parts
pub mod Slices
pub mod Turning
