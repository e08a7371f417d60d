pub mod ListLaws
pub mod StatLaws
pub mod StatSteps
