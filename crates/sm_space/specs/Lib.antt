pub mod Deflating
pub mod Inflating
pub mod Growing
