pub mod Places
pub mod Cut
pub mod LineWords
pub mod Numerals
pub mod Stretched
pub mod Ending
pub mod Pouring
