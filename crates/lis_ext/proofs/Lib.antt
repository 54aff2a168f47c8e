pub mod Numbers
mod Stride
pub mod Touched
mod Bits
pub mod Counted
mod ByList
