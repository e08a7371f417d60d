pub mod Opener
