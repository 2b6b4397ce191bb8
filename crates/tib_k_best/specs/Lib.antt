-- What is kept while the states get their first trees; and the trees below a cost, those of the
-- level at it, and how both are listed together.
pub mod Apart
pub mod Causes
pub mod Costs
pub mod LazyLists
pub mod Levels
pub mod Listing
pub mod QueueOf
pub mod Queues
pub mod RankedOf
pub mod Splits
pub mod Trimmed
pub mod Weights
