pub mod Objects
pub mod Faults
pub mod Kept
pub mod Planned
pub mod GroupsAfter
