pub mod Laws
pub mod Listings
pub mod Changes
pub mod Steps
pub mod Growth
pub mod Touches
pub mod Touching
