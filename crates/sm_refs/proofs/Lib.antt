pub mod CallerLemmas
pub mod ChainLemmas
pub mod FromScratchLemmas
pub mod NameLemmas
pub mod RemovalLemmas
pub mod TallyLemmas
