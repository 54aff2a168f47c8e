pub mod Region
pub mod Inside
pub mod Made
pub mod Lends
