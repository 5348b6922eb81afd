pub mod Requests
pub mod Elements
pub mod Changes
pub mod Told
pub mod Beginnings
pub mod Sends
