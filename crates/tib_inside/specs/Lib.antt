-- The definitions of inside costs, of useful states, and of trimming.
pub mod Inside
pub mod Useful
pub mod Trimmed
pub mod Links
pub mod Holes
pub mod Uses
pub mod Settling
pub mod Renaming
pub mod Reaching
