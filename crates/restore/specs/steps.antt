pub mod Readings
pub mod Files
