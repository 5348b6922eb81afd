pub mod Operated
pub mod Refused
pub mod Walked
