pub mod Judge
pub mod Payload
pub mod Write
pub mod RoundTrip
pub mod JudgeRules
pub mod Padded
pub mod private
