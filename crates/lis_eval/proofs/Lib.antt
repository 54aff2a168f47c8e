pub mod Members
pub mod Slots
mod Stacked
