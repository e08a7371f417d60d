pub mod Commits
pub mod Sites
pub mod Stored
pub mod Volumes
