mod Finds
mod Entries
pub mod Places
mod Taken
mod Holders
mod Indexes
mod Signs
pub mod Laws
mod Sorting
