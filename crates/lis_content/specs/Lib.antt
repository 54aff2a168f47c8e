pub mod Content
pub mod Inside
pub mod Large
pub mod Placing
pub mod Putting
