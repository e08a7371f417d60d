pub mod Cuts
pub mod Pieces
pub mod Rooms
pub mod Trials
