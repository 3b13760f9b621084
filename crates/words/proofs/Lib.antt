pub mod Copies
pub mod Rows
