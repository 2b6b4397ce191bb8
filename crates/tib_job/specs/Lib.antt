pub mod Answers
pub mod Causes
pub mod Kinds
pub mod Laws
pub mod Outcomes
pub mod Run
pub mod Steps
pub mod Values
