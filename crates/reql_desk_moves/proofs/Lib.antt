pub mod Calls
pub mod Stepping
pub mod Closings
pub mod Visits
