pub mod OneLabel
pub mod Records
