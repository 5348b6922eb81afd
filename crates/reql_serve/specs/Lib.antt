pub mod Many
pub mod Seats
pub mod Serving
pub mod Sessions
pub mod Working
