pub mod Attached
pub mod FromScratch
pub mod Kept
pub mod Rooms
pub mod Tallies
