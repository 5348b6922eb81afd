pub mod Led
pub mod Halves
pub mod Kept
