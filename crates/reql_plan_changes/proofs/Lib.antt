pub mod Sizes
pub mod Chosen
pub mod Three
pub mod Opened
