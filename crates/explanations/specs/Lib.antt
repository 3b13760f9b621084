pub mod Answers
pub mod Explained
pub mod Words
