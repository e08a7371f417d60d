pub mod Exports
pub mod Files
pub mod Known
pub mod Laws
pub mod Sending
