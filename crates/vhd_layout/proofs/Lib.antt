pub mod ImageLaws
pub mod ReadingLaws
