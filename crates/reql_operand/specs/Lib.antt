pub mod Seen
pub mod Tables
pub mod Called
pub mod Counted
pub mod Matching
