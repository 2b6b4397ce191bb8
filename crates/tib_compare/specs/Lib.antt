pub mod Compared
pub mod Beside
pub mod Wanted
pub mod Least
pub mod Faults
pub mod Answered
