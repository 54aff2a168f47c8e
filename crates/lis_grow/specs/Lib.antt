pub mod Grow
pub mod Coming
pub mod Summary
pub mod Session
pub mod Summing
