pub mod Rooms
pub mod Sights
pub mod Laws
pub mod Served
pub mod Codes
