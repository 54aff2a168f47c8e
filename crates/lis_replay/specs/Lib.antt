pub mod Dump
pub mod Law
