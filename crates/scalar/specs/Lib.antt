pub mod Argument
pub mod Fixed
pub mod Zigzag
pub mod ScalarRules
