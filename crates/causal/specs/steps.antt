pub mod Past
pub mod Index
pub mod NotAdmitted
