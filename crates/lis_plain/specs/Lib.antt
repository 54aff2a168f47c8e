pub mod Carries
pub mod Tried
