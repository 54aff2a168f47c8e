pub mod Lines
pub mod Truth
pub mod Views
pub mod Edits
pub mod Laws
