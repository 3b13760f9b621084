pub mod Assembles
