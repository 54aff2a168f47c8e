pub mod Dict
pub mod Inside
