mod CountLaws
pub mod ImageLaws
mod PairLaws
mod StepLaws
pub mod PlanLaws
