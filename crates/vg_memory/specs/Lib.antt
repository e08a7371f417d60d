pub mod Accepting
pub mod Laws
pub mod Stores
