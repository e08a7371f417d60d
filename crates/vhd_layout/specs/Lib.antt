pub mod Contents
pub mod Images
pub mod Laws
pub mod Layouts
pub mod Readings
