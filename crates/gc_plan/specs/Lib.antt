pub mod Counting
pub mod Planning
