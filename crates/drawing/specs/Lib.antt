pub mod Room
pub mod Shown
pub mod steps
