pub mod Nodes
pub mod Limits
pub mod Steps
