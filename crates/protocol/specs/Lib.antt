pub mod Client
pub mod Fields
pub mod Reason
pub mod Server
pub mod Scalars
pub mod Anys
pub mod WireType
