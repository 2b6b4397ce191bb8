-- The definitions of contexts and outside costs, of pruning, and of what is kept on the way.
pub mod Contexts
pub mod Outside
pub mod Pruned
pub mod Counted
pub mod Settling
pub mod Examples
pub mod Laws
pub mod Telling
pub mod Loop
pub mod Whole
