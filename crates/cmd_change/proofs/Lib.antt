pub mod PutLaws
pub mod DeleteLaws
pub mod DeletedLaws
