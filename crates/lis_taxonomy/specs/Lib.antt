pub mod Taxonomy
pub mod Search
pub mod Inside
pub mod Steps
