pub mod Importing
pub mod Ends
