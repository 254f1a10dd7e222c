pub mod Faults
pub mod Statuses
