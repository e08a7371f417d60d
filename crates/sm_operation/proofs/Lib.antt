pub mod FlagLaws
pub mod CountLaws
