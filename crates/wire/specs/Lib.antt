pub mod Tag
pub mod Value
pub mod Group
pub mod Field
pub mod Padded
pub mod Past
pub mod GroupRules
