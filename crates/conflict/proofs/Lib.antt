pub mod Candidates
pub mod Images
pub mod NamedGroup
pub mod ObjectGroups
