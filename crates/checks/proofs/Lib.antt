pub mod Before
pub mod Meaning
