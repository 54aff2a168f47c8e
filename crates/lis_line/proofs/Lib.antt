mod Examples
mod Bytes
mod Words
mod Tags
mod Rooms
mod Saying
mod Payloads
mod Sized
pub mod Kept
mod Segments
mod Asking
mod Whole
mod Held
pub mod Given
pub mod Answered
pub mod Carrying
