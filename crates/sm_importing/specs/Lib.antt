pub mod Imports
pub mod Rooms
pub mod Endings
pub mod Disks
pub mod Proper
