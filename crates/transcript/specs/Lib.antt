pub mod Lines
pub mod Order
pub mod steps
