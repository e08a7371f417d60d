pub mod FrameLaws
pub mod ImageLaws
pub mod RoundTrips
pub mod SectorLaws
pub mod StandingLaws
