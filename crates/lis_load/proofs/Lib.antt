pub mod Moments
pub mod Settling
pub mod Holding
pub mod Stepping
pub mod Served
