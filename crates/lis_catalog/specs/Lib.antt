pub mod Catalog
pub mod Calls
pub mod Inside
