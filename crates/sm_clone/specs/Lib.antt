pub mod Forking
