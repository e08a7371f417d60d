pub mod Bits
pub mod EntryLemmas
pub mod KeptLemmas
pub mod SectorLemmas
pub mod SlotLemmas
pub mod Spots
