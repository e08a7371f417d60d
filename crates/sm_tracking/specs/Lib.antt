pub mod Rooms
pub mod Tracking
