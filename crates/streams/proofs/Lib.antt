pub mod FrontLaws
pub mod HeldLaws
pub mod StreamLaws
pub mod ReadingLaws
pub mod SampleLaws
