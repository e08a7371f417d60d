pub mod SpotLaws
pub mod EntryLaws
pub mod TrueLaws
pub mod LightLaws
