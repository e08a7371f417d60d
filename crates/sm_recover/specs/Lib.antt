pub mod Stores
pub mod Repairs
pub mod Steps
pub mod Backs
pub mod Linking
pub mod Ending
pub mod Tracked
