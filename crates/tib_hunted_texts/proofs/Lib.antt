pub mod Differences
pub mod Handed
pub mod Pairs
pub mod Telling
pub mod Counting
pub mod VectorRuns
