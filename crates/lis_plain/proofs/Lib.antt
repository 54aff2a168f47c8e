mod Entries
mod Rows
pub mod Trying
