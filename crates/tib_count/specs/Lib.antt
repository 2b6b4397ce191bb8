pub mod Counts
pub mod Counted
pub mod Products
pub mod Edges
pub mod Order
pub mod Sums
pub mod Laws
