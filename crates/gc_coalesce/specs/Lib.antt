pub mod Beginning
pub mod Blocks
pub mod Copying
pub mod Syncing
