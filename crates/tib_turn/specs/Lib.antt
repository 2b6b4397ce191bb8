-- The definitions of turns: lists that grow, and what each seat has seen.
pub mod Prefixes
pub mod Turns
pub mod Steps
pub mod Seen
