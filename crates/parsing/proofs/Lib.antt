pub mod Rows
pub mod Singles
pub mod Turns
