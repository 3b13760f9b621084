pub mod Lists
pub mod Meets
pub mod Sums
pub mod Feasible
pub mod Exact
pub mod Meaning
pub mod Worked
