pub mod Answers
pub mod Commands
pub mod Loads
pub mod Plans
pub mod Promises
pub mod Records
pub mod Steps
pub mod Visits
