pub mod Places
pub mod Steps
pub mod Told
pub mod Ungrouped
