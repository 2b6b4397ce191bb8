-- The definitions of what a hunt explores, and of the reached set.
pub mod EdgeLists
pub mod Limits
pub mod Keys
pub mod Reached
pub mod Reading
pub mod Expanded
pub mod Lawful
pub mod Found
