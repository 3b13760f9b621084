pub mod Ranges
pub mod Form
pub mod Tighten
pub mod Spans
pub mod Meaning
