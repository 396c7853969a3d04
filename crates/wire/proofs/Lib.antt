mod Names
pub mod TagLaws
pub mod ValueLaws
pub mod PastLaws
pub mod GroupLaws
pub mod FieldLaws
pub mod LongLaws
pub mod EnoughLaws
pub mod AgreeLaws
pub mod MovedLaws
pub mod NumberLaws
pub mod PaddedLaws
pub mod MovedFlagLaws
