mod Names
pub mod AnswerLaws
pub mod ResultLaws
pub mod ReasonLaws
pub mod StepLaws
pub mod RequestLaws
pub mod FrameLaws
pub mod LookLaws
pub mod InspectLaws
pub mod PaddedLaws
