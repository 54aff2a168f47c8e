mod View
mod Bits
mod Joined
pub mod Subset
mod OneRow
pub mod Numbers
mod Loads
pub mod Laws
