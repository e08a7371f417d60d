pub mod Steady
pub mod Steps
pub mod Truth
pub mod Writes
