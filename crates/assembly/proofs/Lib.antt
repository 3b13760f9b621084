pub mod Making
pub mod Passing
