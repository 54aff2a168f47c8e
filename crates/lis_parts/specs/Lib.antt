pub mod Commands
pub mod Showing
pub mod Viewing
pub mod Putting
pub mod Laws
pub mod Inside
