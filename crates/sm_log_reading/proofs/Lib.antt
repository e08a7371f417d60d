pub mod BitLaws
pub mod FaultLaws
pub mod NextLaws
pub mod ReadLaws
pub mod ReadOf
pub mod NumberLaws
