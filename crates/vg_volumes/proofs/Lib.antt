pub mod ApartLaws
pub mod CallLaws
pub mod SpotLaws
pub mod StoredLaws
pub mod VolumeLaws
