pub mod Rules
pub mod Fronts
