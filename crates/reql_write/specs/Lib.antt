pub mod Seen
pub mod Told
pub mod Keyed
pub mod Changing
pub mod Acting
pub mod Selecting
pub mod Counting
pub mod Listing
