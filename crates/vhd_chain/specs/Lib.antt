pub mod Trees
pub mod Places
pub mod Reading
pub mod Pieces
