pub mod Formats
pub mod Groups
pub mod Heads
pub mod Leaving
pub mod Openings
pub mod Proper
pub mod Runs
