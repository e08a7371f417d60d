pub mod EndLaws
pub mod FilledLaws
pub mod GrownLaws
pub mod PageLaws
pub mod StoreLaws
