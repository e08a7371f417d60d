pub mod SmallImageLaws
