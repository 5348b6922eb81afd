pub mod Keyed
pub mod Grouped
pub mod Joined
