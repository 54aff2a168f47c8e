pub mod Joints
pub mod Runs
pub mod Reading
pub mod Rights
