pub mod Told
pub mod Sources
pub mod Indexes
