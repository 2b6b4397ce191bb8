pub mod Reached
pub mod OrderFree
pub mod SubsetThere
pub mod TreeSets
pub mod KeyRules
pub mod Running
pub mod Fresh
pub mod FinalKeys
pub mod Meaning
pub mod ReachedGrammar
mod Leads
mod Ends
mod Sorts
mod Sizes
mod Holding
mod Adding
mod Placing
mod Edging
mod Steps
mod Edges
mod Answering
mod Seeds
mod Leaves
mod Tried
mod Cutting
mod Choosing
mod Completions
mod Positions
mod PositionTries
mod Expanding
mod Walking
mod Single
mod Halving
