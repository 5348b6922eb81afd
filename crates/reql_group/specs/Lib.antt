pub mod Called
pub mod Joined
pub mod Seen
pub mod Gathered
pub mod Zipped
pub mod Reduced
