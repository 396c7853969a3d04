pub mod PutLaws
pub mod PutsLaws
pub mod FieldLaws
pub mod MoveLaws
