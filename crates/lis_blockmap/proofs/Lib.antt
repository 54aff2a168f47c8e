pub mod Taken
mod Bytes
mod Examples
pub mod Laws
