pub mod Doors
pub mod Nets
pub mod Posts
pub mod Tcp
