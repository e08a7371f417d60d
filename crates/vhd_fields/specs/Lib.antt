pub mod Checksums
pub mod DiskGeometry
pub mod Fields
pub mod Footers
pub mod Headers
pub mod ParentNames
