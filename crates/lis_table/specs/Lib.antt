pub mod Places
pub mod Truth
pub mod Tags
pub mod Links
pub mod Tables
pub mod Routes
