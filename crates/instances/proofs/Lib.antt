pub mod Example
pub mod OneLabel
pub mod ReadyExample
pub mod ReleaseExample
pub mod Twelve
