pub mod CallLaws
pub mod SpareLaws
pub mod StoreLaws
