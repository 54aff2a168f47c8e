pub mod Marked
pub mod Lines
pub mod Ways
pub mod Walking
pub mod Left
