pub mod ChainLaws
pub mod AttachedLaws
pub mod GrowLaws
pub mod LackLaws
