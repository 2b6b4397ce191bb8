-- The definitions of complete runs, of the grammar of runs, and of the trimmed file.
pub mod Complete
pub mod RunsOf
pub mod FirstSeen
pub mod TrimmedFile
pub mod Laws
pub mod Links
pub mod Telling
pub mod Keeping
