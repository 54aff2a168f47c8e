pub mod Lines
pub mod Tokens
pub mod Mail
pub mod Bytes
pub mod Joined
pub mod Pieces
pub mod Entries
pub mod Source
