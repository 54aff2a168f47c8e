pub mod Formula
pub mod Codes
pub mod Grammar
pub mod Machine
pub mod Printing
pub mod Places
