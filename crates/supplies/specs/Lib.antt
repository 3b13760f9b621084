pub mod Missing
pub mod Suppliers
