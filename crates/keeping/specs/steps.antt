pub mod Found
pub mod Standings
pub mod Queues
pub mod Beds
pub mod Faults
pub mod Successors
