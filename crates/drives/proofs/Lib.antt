pub mod House
pub mod Table
