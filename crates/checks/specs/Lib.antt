pub mod Before
pub mod Checks
pub mod Meaning
