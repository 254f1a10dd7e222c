pub mod Rows
pub mod Stored
