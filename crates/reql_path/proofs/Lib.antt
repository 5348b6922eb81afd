pub mod Resolved
pub mod Merged
pub mod Gathered
pub mod Alike
pub mod Compiled
pub mod Parts
