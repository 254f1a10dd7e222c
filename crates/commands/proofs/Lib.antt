pub mod EmptyRooms
pub mod NameFaults
