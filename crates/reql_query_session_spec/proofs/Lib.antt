pub mod Batches
pub mod Refusing
pub mod Worked
pub mod Once
pub mod Feeds
pub mod Looks
