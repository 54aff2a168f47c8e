mod Stops
pub mod FrontLemmas
