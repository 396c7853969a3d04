pub mod Reasons
pub mod Does
