pub mod FileIn
pub mod Lengths
pub mod RoundTrips
pub mod Shapes
pub mod Sound
pub mod Steps
pub mod Views
