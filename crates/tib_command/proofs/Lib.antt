mod Setting
mod Pending
mod Places
mod Views
mod Walks
mod Checks
mod PartValues
mod Hyphens
