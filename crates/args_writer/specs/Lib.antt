pub mod Scalar
pub mod Append
pub mod Reads
pub mod private
pub mod Padded
