pub mod NumberLaws
pub mod EntryLaws
pub mod PlacedLaws
pub mod SoundLaws
pub mod StoreLaws
pub mod ImageLaws
pub mod FitLaws
pub mod SampleLaws
