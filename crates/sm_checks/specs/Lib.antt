pub mod Faults
pub mod Loaded
pub mod Links
pub mod Openable
