pub mod Renumbered
pub mod Raised
pub mod Summed
pub mod SumTexts
pub mod Steps
