pub mod Records
pub mod Layouts
