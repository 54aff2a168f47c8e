pub mod Graph
pub mod Again
pub mod Inside
