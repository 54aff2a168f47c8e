pub mod Paging
pub mod LineBytes
pub mod WordsTold
pub mod FilesTold
pub mod FileShown
pub mod InOrder
pub mod Whole
mod Examples
