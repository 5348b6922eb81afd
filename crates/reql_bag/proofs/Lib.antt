pub mod Bags
pub mod Rising
mod Ordered
mod Merging
