pub mod Cases
pub mod OrLaws
pub mod Basics
