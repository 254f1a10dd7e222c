pub mod Alone
pub mod Rooms
pub mod Run
pub mod Script
pub mod Shown
pub mod steps
