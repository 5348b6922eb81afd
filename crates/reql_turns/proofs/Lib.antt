pub mod Greeted
pub mod Frames
pub mod Comings
pub mod Exchanging
pub mod Stepping
