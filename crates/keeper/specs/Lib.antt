pub mod Work
pub mod private
