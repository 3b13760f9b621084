pub mod Admits
pub mod Found
pub mod Meets
