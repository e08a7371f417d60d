pub mod Logs
pub mod Told
pub mod Heads
pub mod Coded
pub mod Kept
pub mod Examples
