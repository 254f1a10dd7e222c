pub mod LineTexts
pub mod Tables
pub mod SoFar
pub mod Exchanges
