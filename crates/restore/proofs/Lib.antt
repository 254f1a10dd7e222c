pub mod Lengths
mod ReadSoFar
pub mod Told
