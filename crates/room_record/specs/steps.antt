pub mod Records
pub mod Texts
