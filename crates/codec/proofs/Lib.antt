pub mod Jobs
pub mod Numbers
pub mod RoundTrip
pub mod Sizes
