pub mod OrderedParts
pub mod Tables
pub mod Reads
