pub mod Reader
pub mod ReaderRules
pub mod Reading
pub mod Stream
pub mod Arrivals
pub mod Samples
