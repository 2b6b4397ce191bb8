pub mod EdgeLemmas
pub mod Limits
pub mod Members
pub mod Reaching
