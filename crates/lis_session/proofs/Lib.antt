pub mod Laws
pub mod Moments
pub mod Same
pub mod Fitting
pub mod Saying
pub mod Answering
pub mod Blocks
pub mod Holding
pub mod Settled
pub mod Written
pub mod Tallying
pub mod Going
pub mod Served
pub mod Whole
pub mod InTurn
pub mod Described
pub mod Counted
pub mod DiskKept
pub mod Shown
mod TextWords
mod Examples
pub mod Ending
pub mod Staying
