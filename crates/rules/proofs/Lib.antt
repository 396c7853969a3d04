mod Names
pub mod AfterCloseLaws
pub mod TestLaws
pub mod RefusalLaws
pub mod ReadLaws
pub mod StepLaws
pub mod LookLaws
pub mod PaddedLaws
pub mod BufferLaws
pub mod SoundLaws
pub mod EndingLaws
pub mod WholeLaws
pub mod SendLaws
pub mod OwnLaws
pub mod DecideLaws
pub mod InspectLaws
