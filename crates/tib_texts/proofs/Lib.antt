pub mod Lines
pub mod FormSeries
pub mod BestOf
pub mod NarrowBest
pub mod PlacedAt
pub mod LinesDerived
pub mod VariableLines
