pub mod Words
pub mod Cuts
pub mod Stretches
pub mod Returns
