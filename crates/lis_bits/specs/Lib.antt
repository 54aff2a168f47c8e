pub mod Rows
pub mod Words
pub mod Inside
pub mod Bytes
