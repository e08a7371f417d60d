pub mod FillLaws
pub mod LogLaws
pub mod MakeLaws
pub mod MarkLaws
pub mod RenewLaws
pub mod SpellLaws
pub mod SplitLaws
