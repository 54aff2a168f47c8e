pub mod Widths
pub mod NumberLists
pub mod Texts
pub mod Pairs
pub mod Runs
pub mod Parts
pub mod Supers
pub mod SetNumbers
pub mod OneSpelling
mod Examples
