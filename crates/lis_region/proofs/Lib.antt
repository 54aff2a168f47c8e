mod Order
mod Slots
mod Made
mod Given
mod Pools
pub mod Frames
