mod FirstTexts
mod Joined
pub mod Parts
