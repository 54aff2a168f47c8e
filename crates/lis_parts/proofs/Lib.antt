pub mod Loaded
pub mod Gathered
pub mod Puts
mod Formulas
mod Saying
mod Viewed
mod Unchanged
mod Examples
mod PutExamples
