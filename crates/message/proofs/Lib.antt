mod Names
pub mod HeadLaws
pub mod MessageLaws
pub mod WithinLaws
pub mod FoundLaws
pub mod UsedLaws
pub mod TwiceWhenLaws
pub mod FirstLaws
pub mod BoundLaws
pub mod BehindLaws
pub mod UnchosenLaws
pub mod TwiceLaws
pub mod OuterLaws
pub mod OneFieldLaws
pub mod PaddedLaws
pub mod PairedLaws
pub mod PaddedSampleLaws
