pub mod AnswerLaws
pub mod BlockLaws
pub mod EndLaws
pub mod EntryLaws
pub mod ImportedLogs
pub mod MadeLaws
pub mod SizeLaws
pub mod StillLaws
