pub mod Choices
pub mod Labels
pub mod Lists
pub mod RoomNames
pub mod Repeats
pub mod Results
pub mod Vectors
mod Merged
