pub mod Usage
pub mod Ends
