pub mod TestParts
pub mod Abs
pub mod Reaching
pub mod Readings
pub mod Resolutions
pub mod Cuts
pub mod Prints
pub mod TextWords
