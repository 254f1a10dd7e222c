pub mod PlaceSet
pub mod Words
pub mod Relations
pub mod Changes
pub mod Lookups
