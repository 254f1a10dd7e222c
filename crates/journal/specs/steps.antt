pub mod Faults
pub mod Failures
pub mod Memories
pub mod Counts
