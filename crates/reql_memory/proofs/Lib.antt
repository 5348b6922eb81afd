pub mod Sorted
pub mod Held
pub mod Finds
pub mod Joined
pub mod Mapped
pub mod Same
