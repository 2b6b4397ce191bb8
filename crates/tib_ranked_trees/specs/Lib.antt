-- Lists of trees, candidates and what they stand for.
pub mod Seen
pub mod ListsOf
pub mod Held
pub mod Ordered
-- The definitions of lists of best trees, and what holds for them.
pub mod First
pub mod Best
pub mod Levels
pub mod Pass
pub mod Firsts
pub mod Below
pub mod Lazy
pub mod Walks
pub mod Leveling
-- Trees by numbers, and heaps as lists.
pub mod Numbers
pub mod Ranked
pub mod Kept
pub mod ShapeList
pub mod TextOrder
pub mod Heaps
