pub mod CutLaws
pub mod DigitLaws
pub mod FieldLaws
pub mod HexTexts
pub mod LineLaws
pub mod PartLaws
pub mod PieceLaws
pub mod StatTexts
