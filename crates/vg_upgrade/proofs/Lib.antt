pub mod UpgradeLaws
pub mod StepLaws
pub mod RestLaws
