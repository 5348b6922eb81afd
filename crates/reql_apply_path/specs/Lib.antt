pub mod Subjects
pub mod Places
pub mod Brackets
pub mod Pairs
pub mod Merged
