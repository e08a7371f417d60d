pub mod Images
pub mod Listed
