pub mod Delivering
pub mod Endings
pub mod Openings
pub mod Overdue
pub mod Places
pub mod Sending
pub mod Served
pub mod Turns
