mod Names
pub mod SizeLaws
pub mod AppendLaws
pub mod FixedBackLaws
pub mod ScalarBackLaws
pub mod ReadsLaws
pub mod PaddedLaws
pub mod FormLaws
