pub mod Record
pub mod Images
pub mod Spreads
pub mod Staging
pub mod Inside
pub mod Phases
pub mod Recovery
pub mod Journal
