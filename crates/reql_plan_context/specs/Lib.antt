pub mod Seen
pub mod Shown
pub mod Keeping
pub mod Settling
