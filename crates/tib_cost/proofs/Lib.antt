pub mod Least
pub mod Times
