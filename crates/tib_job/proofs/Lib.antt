pub mod Complete
pub mod DemandByText
pub mod Faults
pub mod FileValues
pub mod FilesAsked
pub mod OfJobs
pub mod OfOperations
pub mod OneStatus
pub mod Outcomes
pub mod ReadValues
pub mod Reached
pub mod Runs
mod RunsAlike
pub mod Steps
