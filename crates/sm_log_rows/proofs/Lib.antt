pub mod ApartLaws
pub mod ChangedLaws
pub mod ContentLaws
pub mod DroppedLaws
