mod Entering
mod Rooms
