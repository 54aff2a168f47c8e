pub mod States
pub mod Steps
pub mod Follows
pub mod Quiet
pub mod Carried
mod Examples
