pub mod Closing
pub mod Courses
pub mod Fed
pub mod Posts
pub mod Sends
pub mod Served
pub mod Starting
