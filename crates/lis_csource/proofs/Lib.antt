pub mod JoinedLemmas
pub mod PathLemmas
pub mod PieceLemmas
pub mod ReadingLemmas
mod Examples
