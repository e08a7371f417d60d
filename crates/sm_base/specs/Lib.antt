pub mod Kinds
pub mod LabelBytes
pub mod Labels
pub mod Limits
pub mod Names
pub mod Numbers
pub mod Refusals
pub mod Texts
