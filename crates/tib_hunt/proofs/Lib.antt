pub mod Runs
pub mod Rounds
mod Settling
mod Pieces
mod Holding
mod Advancing
mod Finding
mod OnShelves
mod Underway
mod WrittenRuns
mod Outcomes
mod Taken
mod KnownEnds
mod KnownPlaces
mod GatheredRows
