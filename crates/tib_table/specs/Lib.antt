-- The definitions of tables: keys on shelves, and what the seats know of them; keys with numbers,
-- in the order of first sight and in ascending order.
pub mod Kept
pub mod Known
pub mod Lookups
pub mod Numbered
pub mod Seated
