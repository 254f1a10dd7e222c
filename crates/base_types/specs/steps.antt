pub mod Faults
pub mod Forms
pub mod Equality
