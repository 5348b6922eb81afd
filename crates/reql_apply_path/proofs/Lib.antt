pub mod Reached
pub mod Bracketed
pub mod Eached
pub mod Good
pub mod Patterned
pub mod Paired
pub mod Merges
pub mod Walked
