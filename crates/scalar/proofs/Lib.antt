pub mod ArgumentLaws
pub mod FixedLaws
pub mod SignedLaws
pub mod ZigzagLaws
