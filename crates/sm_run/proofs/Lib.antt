pub mod Growth
pub mod LineLaws
pub mod PoorLaws
pub mod ReadLaws
pub mod StepLaws
pub mod RunLaws
