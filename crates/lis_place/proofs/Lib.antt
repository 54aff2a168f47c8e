pub mod Trees
pub mod Tallies
pub mod Lasts
pub mod Kept
