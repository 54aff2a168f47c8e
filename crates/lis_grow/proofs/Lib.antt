pub mod Comings
pub mod Takings
mod Short
mod Going
pub mod Growing
mod Showing
