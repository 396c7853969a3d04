pub mod Numbers
pub mod Listing
pub mod Image
pub mod Acceptable
pub mod Restore
pub mod ImageRules
pub mod Samples
pub mod private
