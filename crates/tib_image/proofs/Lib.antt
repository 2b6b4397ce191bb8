pub mod Answering
mod Copying
pub mod Covering
pub mod EachKey
pub mod EdgesListed
pub mod Edging
pub mod KeysWithin
pub mod Leaves
pub mod Listed
pub mod Matching
pub mod Meaning
pub mod ParseAnswering
mod ParseListed
pub mod Parses
pub mod ReachedParses
pub mod Reaching
mod Reading
mod Ruling
mod Spanned
pub mod StringRuns
pub mod Walking
