pub mod Ended
pub mod Whole
