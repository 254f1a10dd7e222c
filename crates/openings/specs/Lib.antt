pub mod Openings
pub mod steps
