pub mod SectorWrites
pub mod StoreLaws
