pub mod Runs
pub mod Lines
mod Examples
pub mod Ranges
pub mod NotedLemmas
pub mod Distinct
