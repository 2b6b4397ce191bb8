-- The definitions of lines, tokens and lists.
pub mod Bytes
pub mod Next
pub mod Grammar
pub mod Laws
pub mod Line
pub mod Reads
pub mod Lines
pub mod NextLine
pub mod FaultOf
pub mod Lists
pub mod FirstFault
pub mod PairOrder
pub mod Limits
