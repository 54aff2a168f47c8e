mod Order
mod Places
pub mod Slots
pub mod Laws
mod Taken
mod Held
mod Sorting
