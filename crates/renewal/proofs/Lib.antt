pub mod More
pub mod Replayed
