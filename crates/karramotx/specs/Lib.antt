pub mod Counts
pub mod Message
pub mod Inspection
pub mod Value
pub mod ValueRules
pub mod Given
pub mod private
