pub mod Past
pub mod Shortest
pub mod Number
pub mod Varint
pub mod Padded
pub mod VarintRules
pub mod private
