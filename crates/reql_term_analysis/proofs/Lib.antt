pub mod Frames
pub mod Objects
pub mod Senses
pub mod Terms
