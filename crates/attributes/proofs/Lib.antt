pub mod Pairs
pub mod Members
pub mod Searched
pub mod Shown
