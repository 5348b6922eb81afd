pub mod Seen
pub mod Tests
pub mod Followed
