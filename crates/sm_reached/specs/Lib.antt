pub mod Examples
pub mod Reached
