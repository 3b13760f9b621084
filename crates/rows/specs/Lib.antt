pub mod Items
pub mod Reading
pub mod Table
pub mod Writing
