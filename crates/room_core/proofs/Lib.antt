pub mod Replay
pub mod OutOfRange
pub mod Seen
pub mod Shows
pub mod Accepted
