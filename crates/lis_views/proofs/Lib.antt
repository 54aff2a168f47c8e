pub mod Cutting
pub mod Marks
pub mod Pieces
pub mod Parting
pub mod Ends
pub mod Backs
pub mod Edits
mod Examples
