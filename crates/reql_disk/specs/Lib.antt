pub mod Disk
pub mod Calls
pub mod Memory
pub mod Files
pub mod Folder
