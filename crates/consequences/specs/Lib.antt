pub mod Freed
pub mod Independence
pub mod Logs
pub mod Lost
pub mod Ready
pub mod Tapes
pub mod Todo
