pub mod Field
pub mod Fixed
pub mod Frame
pub mod Put
pub mod Puts
