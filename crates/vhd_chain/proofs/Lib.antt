pub mod ByName
pub mod LinkLaws
pub mod OrderLaws
pub mod PlaceLaws
pub mod ReadingLaws
pub mod PieceLaws
pub mod ReplaceLaws
