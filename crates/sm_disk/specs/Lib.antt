pub mod Failing
pub mod Held
pub mod Memory
pub mod MemoryStreams
pub mod Sectors
pub mod Streams
