pub mod Rising
pub mod Led
pub mod Lower
pub mod Mkdirs
pub mod Axioms
pub mod Lists
pub mod Joined
pub mod Given
pub mod Paths
pub mod Adds
pub mod Moves
pub mod Files
pub mod Visible
pub mod Spelled
pub mod Lines
pub mod Sizes
pub mod Whole
mod Examples
