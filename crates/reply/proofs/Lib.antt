pub mod DecimalLaws
pub mod FrameLaws
pub mod FramesLaws
pub mod ReplyLaws
pub mod TextLaws
