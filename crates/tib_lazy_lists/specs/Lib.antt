-- What states keep while their lists grow where a tree is asked for.
pub mod Firsts
pub mod Offers
pub mod AskingOf
pub mod Asks
pub mod Causes
pub mod Stacks
pub mod Beginnings
pub mod Demands
