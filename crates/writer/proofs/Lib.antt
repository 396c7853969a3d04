mod Names
pub mod SizeLaws
pub mod JudgeLaws
pub mod WriteLaws
pub mod ArgListLaws
pub mod FieldLaws
pub mod StretchLaws
pub mod ListsLaws
pub mod BackLaws
pub mod ExecuteBackLaws
pub mod PrepareBackLaws
pub mod RoundTripLaws
pub mod EnoughLaws
pub mod MarkLaws
pub mod PaddedLaws
