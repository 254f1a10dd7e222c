pub mod OpenedRooms
pub mod Rules
