pub mod Jobs
pub mod Few
