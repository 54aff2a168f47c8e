pub mod Changes
pub mod Seen
pub mod Laws
pub mod Event
pub mod History
pub mod Room
pub mod MemStation
pub mod Untold
