pub mod Sources
pub mod Passing
pub mod Filtering
pub mod Indexes
pub mod Slicing
pub mod Orders
