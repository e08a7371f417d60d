pub mod BaseLemmas
pub mod KindLaws
pub mod LogOrder
pub mod NameLemmas
pub mod NumberLemmas
pub mod OrderLemmas
pub mod ReadLemmas
pub mod TextLemmas
