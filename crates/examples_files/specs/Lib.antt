pub mod SmallFiles
pub mod TakenFiles
