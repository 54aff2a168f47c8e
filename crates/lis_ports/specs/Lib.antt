pub mod Meaning
pub mod Bytes
pub mod Runs
pub mod Calls
pub mod Sources
pub mod Shown
pub mod Since
