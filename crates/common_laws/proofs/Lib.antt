pub mod Booleans
pub mod Options
pub mod Bytes
pub mod Lists
