pub mod Numbers
pub mod Families
pub mod Names
pub mod Histograms
pub mod steps
