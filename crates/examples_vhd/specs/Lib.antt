pub mod SmallImages
