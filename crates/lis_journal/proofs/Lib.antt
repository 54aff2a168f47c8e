pub mod Entries
pub mod Spreading
mod Frames
pub mod Runs
mod Places
mod Headers
mod Gates
mod Series
mod Writing
mod Areas
pub mod Phases
mod Saving
mod Absorbing
mod Holding
mod Loading
pub mod Recovering
pub mod Fitting
pub mod Before
