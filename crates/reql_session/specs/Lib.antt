pub mod Settling
pub mod Ending
pub mod Batches
pub mod Keeping
