pub mod Moments
pub mod Always
pub mod Parts
pub mod Ending
pub mod OnlyReading
mod Taking
