pub mod Frames
pub mod Heads
pub mod Feeding
pub mod Greeting
