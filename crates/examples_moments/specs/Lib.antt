pub mod WorkedImages
pub mod Worked
pub mod Moments
pub mod Opened
pub mod ByParts
