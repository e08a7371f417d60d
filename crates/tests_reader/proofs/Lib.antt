pub mod HeadLaws
pub mod TextLaws
pub mod OpeningLaws
