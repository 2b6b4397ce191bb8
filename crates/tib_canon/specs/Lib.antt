pub mod Canonical
pub mod Merging
pub mod LineOrder
pub mod Lines
pub mod Keys
pub mod TrimmedForms
pub mod Constructions
pub mod Laws
pub mod Choosing
-- The definitions of the canonical transducer of a reached set.
pub mod Ordered
pub mod TransducerKeys
pub mod TransducerMerging
pub mod TransducerLines
pub mod RuleItems
pub mod TransducerConstructions
pub mod Composing
pub mod TransducerLaws
