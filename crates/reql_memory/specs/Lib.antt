pub mod Sorted
pub mod CopyOnWrite
