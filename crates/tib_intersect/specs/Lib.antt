pub mod PairEdges
pub mod PairGrammar
pub mod PairRules
pub mod PairLaws
pub mod Matching
pub mod PairListing
pub mod Intersection
pub mod Answered
