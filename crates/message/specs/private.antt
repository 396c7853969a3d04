pub mod First
pub mod Outer
pub mod Parts
pub mod Marks
