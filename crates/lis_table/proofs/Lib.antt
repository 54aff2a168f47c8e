pub mod Places
mod Stacks
mod PlaceWords
mod NoTests
mod Closing
pub mod Routes
