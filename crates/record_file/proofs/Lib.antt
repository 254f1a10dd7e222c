mod Breaks
pub mod Lines
pub mod Ranges
mod Texts
