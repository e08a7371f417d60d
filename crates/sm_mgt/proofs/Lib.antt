pub mod PlaceLaws
pub mod ClearLaws
pub mod AgreeLaws
pub mod FindLaws
pub mod CountLaws
