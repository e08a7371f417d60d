pub mod Carrying
pub mod Stepped
pub mod Truth
