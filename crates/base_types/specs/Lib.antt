pub mod Names
pub mod Texts
pub mod RoomNames
pub mod Values
pub mod VersionIds
pub mod Repeats
pub mod Vectors
pub mod steps
