pub mod BitLaws
pub mod TellLaws
pub mod WalkLaws
pub mod CodeLaws
pub mod HeadLaws
pub mod ByteLaws
pub mod LineLaws
