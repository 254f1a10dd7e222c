pub mod Counted
pub mod Indexed
pub mod Sited
