pub mod Made
pub mod Saying
pub mod Walks
