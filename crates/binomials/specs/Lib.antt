pub mod Binomials
pub mod Draw
pub mod Halves
pub mod Triangle
