pub mod Pair
pub mod Bound
pub mod Parts
