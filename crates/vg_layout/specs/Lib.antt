pub mod Fields
pub mod Places
pub mod Sectors
pub mod Opening
