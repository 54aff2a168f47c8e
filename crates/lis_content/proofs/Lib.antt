pub mod Numbers
pub mod Indexes
mod Examples
pub mod Files
mod IndexesRead
mod Taking
mod Rows
pub mod Laying
mod Indexing
pub mod Reading
pub mod Places
