pub mod CleanedShapes
pub mod CleaningLaws
pub mod SwapLaws
