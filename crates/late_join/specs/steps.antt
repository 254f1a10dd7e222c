pub mod Steps
pub mod Feeding
