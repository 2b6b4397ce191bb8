-- The definitions of transducers that are made from a grammar or a transducer rule by rule.
pub mod Placed
pub mod Derivations
pub mod DerivationSeries
pub mod Inverse
pub mod Invertible
pub mod Examples
-- What the code that makes an inverse keeps on the way.
pub mod Paired
