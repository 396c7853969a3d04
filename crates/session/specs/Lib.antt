pub mod Lists
pub mod Session
pub mod Entry
pub mod Tables
pub mod Words
pub mod Sound
pub mod private
