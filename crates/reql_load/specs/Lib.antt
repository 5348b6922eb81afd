pub mod Script
pub mod Writing
pub mod Folded
