pub mod Calls
pub mod Entrances
pub mod Replies
pub mod Causes
pub mod Ends
pub mod Faults
pub mod Confined
