mod Names
pub mod BuildLaws
pub mod RowLaws
pub mod WordLaws
pub mod PutLaws
pub mod LoopLaws
pub mod EntryLaws
pub mod BlockLaws
pub mod ChangeLaws
pub mod PlaceLaws
pub mod SumLaws
pub mod OnceLaws
pub mod TableLaws
