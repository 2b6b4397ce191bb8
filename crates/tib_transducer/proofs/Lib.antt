pub mod Shapes
pub mod Covering
pub mod FirstParts
pub mod Products
pub mod Selecting
pub mod Itemizing
pub mod Moves
pub mod NamedItems
pub mod Counting
mod Labels
mod Standing
