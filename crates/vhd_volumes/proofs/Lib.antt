pub mod KeptLaws
pub mod SteadyLaws
