pub mod Kept
pub mod Light
