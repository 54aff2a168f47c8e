pub mod Laws
mod Places
pub mod Seen
pub mod Searches
mod Marks
mod Ups
pub mod Finds
