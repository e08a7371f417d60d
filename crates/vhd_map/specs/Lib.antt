pub mod Bitmaps
pub mod Kept
pub mod Places
pub mod Slots
pub mod Words
