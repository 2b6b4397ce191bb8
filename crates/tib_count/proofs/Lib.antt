pub mod ListsOnce
pub mod RunLists
mod EdgesOf
mod Searching
mod Endlessness
mod CountedNumbers
mod Summing
mod Orders
pub mod SetCounts
pub mod Once
pub mod OneTree
pub mod FreeRuns
pub mod RunsLike
pub mod CarriedRuns
pub mod UsefulRuns
pub mod FreeForms
pub mod KeptRuns
pub mod CanonicalRuns
pub mod CompleteRuns
