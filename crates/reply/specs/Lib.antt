pub mod Decimal
pub mod DecimalRules
pub mod Frame
pub mod Frames
pub mod FramesRules
pub mod Reply
pub mod ReplyRules
pub mod Text
