pub mod Moments
pub mod Live
pub mod Counted
pub mod Writing
pub mod Core
pub mod Saved
