pub mod Closing
pub mod FreshKeys
pub mod Inserted
pub mod Joining
pub mod Logs
pub mod Passes
pub mod Placed
pub mod Sights
mod Sorting
pub mod Taking
