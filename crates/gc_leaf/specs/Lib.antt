pub mod Moments
pub mod Swapping
