pub mod GivenLaws
pub mod MessageLaws
pub mod ReadLaws
pub mod SintLaws
pub mod ValueLaws
