pub mod Objects
pub mod State
pub mod Drawing
pub mod Additions
pub mod Faults
