mod Joined
pub mod Rise
mod Runs
mod Sorting
mod Beside
