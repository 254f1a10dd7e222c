pub mod Taken
pub mod Within
pub mod AnyOrder
pub mod Replay
pub mod Arrival
pub mod First
pub mod Fronts
