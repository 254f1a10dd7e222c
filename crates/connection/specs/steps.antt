pub mod Frames
pub mod States
