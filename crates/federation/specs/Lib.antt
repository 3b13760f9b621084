pub mod Federation
