mod Reading
mod Meeting
mod Settled
mod Skipping
mod Taking
mod Left
mod Advance
mod Listed
mod Walking
mod Outputs
mod Steps
mod Turns
mod Whole
mod FlatEdges
mod Expanded
pub mod Hunted
mod Bounded
mod Plenties
pub mod Faults
