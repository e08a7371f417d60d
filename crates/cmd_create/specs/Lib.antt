pub mod Making
pub mod Stages
pub mod Vhds
