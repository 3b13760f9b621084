pub mod Injective
