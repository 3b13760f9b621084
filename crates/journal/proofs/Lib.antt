pub mod Booked
pub mod Putting
pub mod Slots
