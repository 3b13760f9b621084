pub mod Lengths
pub mod Numbers
pub mod RoundTrip
pub mod Sets
pub mod Sound
