pub mod Alphabet
pub mod Reading
pub mod Domain
