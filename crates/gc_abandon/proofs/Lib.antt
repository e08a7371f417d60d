pub mod EntryLaws
pub mod EndingLaws
pub mod AbandonedLaws
pub mod TableLaws
