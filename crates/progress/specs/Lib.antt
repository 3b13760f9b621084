pub mod Coming
pub mod Kept
pub mod Pieces
pub mod Turns
pub mod Said
