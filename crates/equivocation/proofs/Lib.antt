pub mod Gathering
pub mod Partners
