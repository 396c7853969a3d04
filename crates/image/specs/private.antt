pub mod Ends
pub mod Handed
