pub mod Binomials
pub mod Chances
pub mod Halves
pub mod Pages
pub mod Rounding
pub mod Rows
